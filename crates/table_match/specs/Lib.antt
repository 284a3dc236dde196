-- The definitions of matching over a compiled table.
pub mod Rows
pub mod First
