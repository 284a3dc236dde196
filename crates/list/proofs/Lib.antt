-- The laws of lists by numbers.
pub mod Laws
pub mod Elements
pub mod Opened
