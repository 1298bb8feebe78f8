-- Text on its way out. Pages: what is written on a page, a number as text. Rows: known values.
pub mod Pages
pub mod Rows
