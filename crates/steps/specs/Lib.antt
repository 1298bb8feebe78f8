-- Step: steps 4 to 7. Weight: a weight after its step.
pub mod Step
pub mod Weight
