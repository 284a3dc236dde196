-- The definitions of the compiled table.
pub mod Layout
pub mod Table
pub mod Compile
pub mod Read
