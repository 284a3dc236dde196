-- The laws of stops, and worked examples.
pub mod Digits
pub mod Reading
pub mod Writing
pub mod Back
pub mod Kept
pub mod Double
pub mod Opened
mod Examples
