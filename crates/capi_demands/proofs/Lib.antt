-- Told: a list of exported calls as a list of the definition's. Cut, Demand1, Dropout: the statements of specs/. Meets: they are not empty.
pub mod Told
pub mod Cut
pub mod Demand1
pub mod Dropout
pub mod Meets
