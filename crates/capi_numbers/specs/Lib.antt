-- The record as numbers, and the reply.
pub mod RawRecord
