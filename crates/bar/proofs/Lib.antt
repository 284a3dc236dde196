-- The laws that belong to no one function.
pub mod Steps
pub mod Laws
pub mod Ranges
pub mod Examples
pub mod Opened
