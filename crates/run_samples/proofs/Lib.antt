-- OneSample: one sample on the arrays. RunLoop: the loop over the samples of a run.
pub mod OneSample
pub mod RunLoop
