-- The laws of a match that is kept as a number.
pub mod Number
