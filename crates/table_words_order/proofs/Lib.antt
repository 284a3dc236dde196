-- The laws of the order of texts, and worked examples.
pub mod Total
pub mod Level
pub mod Apart
pub mod Sorted
mod Examples
pub mod Opened
