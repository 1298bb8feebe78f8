-- Nearest: the level nearest to a part.
pub mod Nearest
