-- Steps: the weights' step, by index. Settled: the weights after a lane that is not finite.
pub mod Steps
pub mod Settled
