-- The laws of the exported calls that take no samples.
pub mod Laws
