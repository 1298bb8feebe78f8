-- Laws of steps 4 to 7 that belong to no one function.
pub mod Exits
pub mod Heard
pub mod OnScale
