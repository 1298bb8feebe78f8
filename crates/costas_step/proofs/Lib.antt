-- Halves, Steps: the phase step, by its exits.
pub mod Halves
pub mod Steps
