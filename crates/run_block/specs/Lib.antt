-- What the functions of a block promise.
pub mod Block
