-- The laws of a line that is read.
pub mod Line
