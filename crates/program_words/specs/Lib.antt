-- Words: what a byte divides a list into, words in a list. Wholes: whole numbers in a text. Rows: known values.
pub mod Words
pub mod Wholes
pub mod Rows
