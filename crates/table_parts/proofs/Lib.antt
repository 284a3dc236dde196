-- The laws of a table in the making.
pub mod Codes
pub mod Rows
pub mod Words
pub mod Clauses
pub mod Events
pub mod Known
pub mod Sizes
pub mod Right
mod Examples
pub mod Opened
