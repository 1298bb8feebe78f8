-- Blocks: blocks of eight products. Halves, Sums: the sum over the padded arrays is the definition's.
pub mod Blocks
pub mod Halves
pub mod Sums
