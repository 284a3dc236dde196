-- Laws of signals, keys and values.
pub mod Parts
pub mod Keys
pub mod Says
mod Examples
pub mod Opened
