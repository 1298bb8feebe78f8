-- Start: the start, the samples and the end of a run put together.
pub mod Start
