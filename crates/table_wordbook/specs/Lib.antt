-- The definitions of a wordbook, and what the code's answers mean.
pub mod Wordbook
pub mod Read
