-- Laws of binary floats over `lib.Ieee`, each over both formats. They speak of no equalizer.
-- Fields: a value by the three fields of its pattern. Units, Half: rounding as whole-number arithmetic, ties to even.
-- Order: the order of numbers is total. Exact: x - x, and rounding a zero. Bound: magnitudes after sums and products. Zero: signs of zeros. NoNan: what is no NaN.
pub mod Exact
pub mod Order
pub mod Fields
pub mod Units
pub mod Half
pub mod Bound
pub mod Zero
pub mod NoNan
