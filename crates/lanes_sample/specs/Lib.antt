-- Measures: the filter sum and the power of a sample's window. Absorbs: what a sample leaves in the arrays.
pub mod Measures
pub mod Absorbs
