-- Laws that belong to no one function.
pub mod Elements
pub mod Weights
