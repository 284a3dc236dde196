-- The laws of the sequence text.
pub mod Tags
pub mod Closings
pub mod Parts
