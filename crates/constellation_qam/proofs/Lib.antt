-- Levels: floors and levels by a tree of comparisons.
pub mod Levels
