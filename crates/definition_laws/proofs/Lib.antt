-- Laws about the definition, for the theorems and for the code.
pub mod Every
pub mod Parts
pub mod Bounds
pub mod Gains
pub mod Accept
pub mod Kept
pub mod Exits
pub mod Runs
pub mod Padding
pub mod Verdicts
pub mod Mapped
pub mod Progress
