-- Tables: the rows, computed. Exits: a served call and a refused one.
pub mod Tables
pub mod Exits
