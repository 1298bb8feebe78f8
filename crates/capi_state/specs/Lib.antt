-- What each exported call that takes no samples replies and leaves.
pub mod Raw
