-- The definitions of a table's words, and what the code's answers mean.
pub mod Words
pub mod Read
