-- The laws of the fields that are printed.
pub mod Lines
pub mod Short
pub mod Signed
