-- Tables: the rows, computed. Texts: what a byte divides a list into. Wholes: digits in a text.
pub mod Tables
pub mod Texts
pub mod Wholes
