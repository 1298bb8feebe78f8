-- Tables: the rows, computed. Laid: a text laid over a list. Laying: a text copied onto a page. Entries: the text of a number in a list. Numerals: a number's digits.
pub mod Tables
pub mod Laid
pub mod Laying
pub mod Entries
pub mod Numerals
