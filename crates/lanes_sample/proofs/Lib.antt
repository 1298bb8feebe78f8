-- ChainLoop: the chain of the power. Windows, Representation, Measurement, Sample: one sample, up to `sample_holds`.
pub mod ChainLoop
pub mod Windows
pub mod Representation
pub mod Measurement
pub mod Sample
