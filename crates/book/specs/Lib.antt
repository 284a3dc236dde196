-- The definitions of the book.
pub mod Layout
pub mod Check
pub mod Calls
pub mod Opened
pub mod Distance
