-- The definitions of a first line.
pub mod First
