-- Starts: what the tests of `new` and `reset` say of the lengths.
pub mod Starts
