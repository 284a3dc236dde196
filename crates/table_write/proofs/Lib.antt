-- The laws of writing a table.
mod Names
mod Table
pub mod Asked
mod Examples
pub mod Opened
