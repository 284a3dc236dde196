-- The laws of a table's texts, and worked examples.
pub mod Meeting
pub mod Cut
mod Examples
pub mod Opened
