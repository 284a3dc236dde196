-- The laws of the table check, and worked examples.
pub mod Spans
pub mod Parts
mod Examples
pub mod Opened
