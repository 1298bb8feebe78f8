-- Load: the caller's slices and the split arrays, by index.
pub mod Load
