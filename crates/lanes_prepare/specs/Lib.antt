-- Entered: the samples of a run in the window. Clock: the modes of a run and its step sizes.
pub mod Entered
pub mod Clock
