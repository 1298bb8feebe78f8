-- What is proved of the definition, as statements to be read on their own. The proofs are in proofs/.
pub mod Traces
pub mod Marks
pub mod Numbers
pub mod Demand1
pub mod Cut
pub mod Blanks
pub mod Demand3
pub mod NoSpill
pub mod Weights
