-- What the functions of one run promise.
pub mod WholeRun
