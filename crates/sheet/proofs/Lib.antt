-- The laws of a position sheet.
pub mod Opened
pub mod Fields
mod Examples
