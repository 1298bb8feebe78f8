-- The table of vectors.
pub mod Tables
