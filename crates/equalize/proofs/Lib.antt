-- An equalizing call that is served: its lengths and its answer.
pub mod Calls
