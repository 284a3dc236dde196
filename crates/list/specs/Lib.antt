-- The definitions of lists by numbers.
pub mod Numbered
