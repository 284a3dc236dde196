-- The laws of the bytes that compiling writes.
pub mod Sized
pub mod Rows
pub mod Head
pub mod Placed
pub mod Table
pub mod Fill
pub mod Opened
mod Examples
