-- Laws of operates.
pub mod Laws
mod Examples
pub mod Opened
