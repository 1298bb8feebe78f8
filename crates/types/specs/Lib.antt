-- What the contracts of the types cite: floats by their bits, the numbers and the words of the cases, the record at the start.
pub mod Bits
pub mod Numbers
pub mod Start
pub mod Words
