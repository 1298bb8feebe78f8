-- Radius: Godard's R2, computed.
pub mod Radius
