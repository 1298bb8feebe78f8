pub mod Path
pub mod Seen
