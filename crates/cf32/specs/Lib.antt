-- Samples as the bytes of a cf32 file: two f32 to a sample, real part first, each with its lowest byte first.
-- Bytes: floats from bytes and bytes from floats. Rows: known bytes. The head of the definition's Lib says how definitions are read.
pub mod Bytes
pub mod Rows
