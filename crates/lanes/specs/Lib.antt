-- Fits: what the loops over the lanes ask of a shape. Fed: where a sample's feedback window lies. Arrays: the five arrays. Holds: what they hold of an equalizer. Adapts: the weights' step in the definition's words.
-- Between, Powers: what loops over an array compute, by index.
pub mod Fits
pub mod Fed
pub mod Arrays
pub mod Holds
pub mod Adapts
pub mod Between
pub mod Powers
