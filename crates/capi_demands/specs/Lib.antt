-- What is proved of lists of exported calls, as statements to be read on their own.
pub mod Traces
pub mod Demand1
pub mod Cut
pub mod Demand3
