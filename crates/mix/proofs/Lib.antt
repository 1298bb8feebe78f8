-- Pair: the pair at phase 0.
pub mod Pair
