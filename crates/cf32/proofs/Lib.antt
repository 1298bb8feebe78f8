-- Tables: the rows, computed. Words: one float and its pattern. Passes: how far a pass over floats and bytes has come.
pub mod Tables
pub mod Words
pub mod Passes
