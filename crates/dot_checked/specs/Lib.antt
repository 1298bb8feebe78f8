-- Dot: what dot_complex answers.
pub mod Dot
