-- The laws of numbers that are read.
pub mod Digits
pub mod Whole
mod Hex
