-- The laws of the compiled table.
pub mod Rows
pub mod Walks
pub mod Heads
pub mod Spans
pub mod Facts
pub mod Older
pub mod Examples
pub mod Opened
