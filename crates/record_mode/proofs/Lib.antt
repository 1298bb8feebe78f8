-- Counts: the count below the samples of Cma.
pub mod Counts
