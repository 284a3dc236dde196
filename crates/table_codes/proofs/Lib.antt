-- Laws of numbering keys and values.
pub mod Growing
pub mod Places
pub mod Adding
pub mod Filling
pub mod Loops
pub mod Sheet
mod Examples
pub mod Opened
