-- What every program promises of itself.
pub mod Status
