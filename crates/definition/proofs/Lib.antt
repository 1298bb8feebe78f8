-- The tables of rows, computed. Held: a law of a decision's level, for the code and for other laws.
pub mod Computed
pub mod Tables
pub mod Held
