-- The laws that belong to no one function, laws of joined texts, and worked examples.
pub mod Laws
pub mod Joined
mod Examples
pub mod Opened
