-- The laws of the lines that are printed.
pub mod Texts
