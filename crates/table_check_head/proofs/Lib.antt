-- The laws of the check of a header.
pub mod Heads
