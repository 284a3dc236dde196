-- The laws of a first line.
pub mod FirstLine
