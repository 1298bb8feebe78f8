-- Loops: tests of all lanes. HalfLoop: one step of the loop. Tests: the code's tests. Update: the new weights by index. HalfStep, Adaptation: the weights after a sample.
pub mod Loops
pub mod HalfLoop
pub mod Tests
pub mod Update
pub mod HalfStep
pub mod Adaptation
