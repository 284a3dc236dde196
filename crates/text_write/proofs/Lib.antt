-- The laws of numbers that are written.
pub mod Written
pub mod Back
