-- Laws that belong to no one function: one for each exit, and one record for the loop.
pub mod Numbers
pub mod Powers
pub mod Weights
pub mod OneSample
pub mod BlockLoop
