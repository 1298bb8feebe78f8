-- The proofs of the statements in specs/, and that they are not empty.
pub mod Marks
pub mod Belongs
pub mod Numbers
pub mod Served
pub mod Cut
pub mod Blanks
pub mod Dropout
pub mod Spill
pub mod Sharp
pub mod Made
pub mod Meets
pub mod Weights
