-- Laws that belong to no one function: a case and its number.
pub mod Numbered
