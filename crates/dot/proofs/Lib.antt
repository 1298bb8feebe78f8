-- Lanes: the partial sums.
pub mod Lanes
