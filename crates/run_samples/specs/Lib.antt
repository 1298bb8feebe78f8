-- Sample: one sample on the arrays. Run: the samples of a run.
pub mod Sample
pub mod Run
