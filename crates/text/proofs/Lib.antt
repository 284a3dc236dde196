-- The laws that belong to no one function, and the worked examples.
pub mod Answers
pub mod Refusals
pub mod Laws
pub mod Same
pub mod Conditions
pub mod Tested
pub mod Every
pub mod Search
pub mod Parts
pub mod Cut
pub mod Joined
pub mod Lines
pub mod Put
mod Examples
pub mod Opened
