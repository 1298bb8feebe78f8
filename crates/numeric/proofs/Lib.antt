-- Leaves: is_finite, abs, flush, clip. Ranges: a test of a range as comparisons. Digits: shifts and masks. Narrowing: an f64 to the nearest f32.
pub mod Leaves
pub mod Ranges
pub mod Digits
pub mod Narrowing
