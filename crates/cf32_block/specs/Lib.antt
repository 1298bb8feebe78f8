-- One call of the equalizer from the bytes of a cf32 file to bytes. Block: the definition. Paths: the words of the paths. Rows: whole calls of it.
pub mod Block
pub mod Paths
pub mod Rows
