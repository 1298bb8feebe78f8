-- Split: the filter sum over split arrays, by index.
pub mod Split
