-- Entry, Chains: one step of each loop. Start: the start of a run. Clock: the modes of a run.
pub mod Entry
pub mod Chains
pub mod Start
pub mod Clock
