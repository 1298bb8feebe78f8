-- LaneLimits: the limits of the lanes. Load: the slices into the arrays. End: the end of a run. Store: the arrays back into the slices.
pub mod LaneLimits
pub mod Load
pub mod End
pub mod Store
