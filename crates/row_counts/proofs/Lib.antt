-- The laws of the counts.
pub mod Counting
pub mod Asked
