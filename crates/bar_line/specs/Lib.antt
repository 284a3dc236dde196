-- The definitions of a line of the exchange's comma file.
pub mod Line
