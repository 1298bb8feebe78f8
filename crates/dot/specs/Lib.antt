-- Added: what a block of products does to the partial sums. Parts: the parts of a complex product.
pub mod Added
pub mod Parts
