-- Part: one run more of a block. BlockLoop: all runs. Call: the caller's slices.
pub mod Part
pub mod BlockLoop
pub mod Call
