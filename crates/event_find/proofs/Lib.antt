-- The laws of fingerprints and of finding a line.
mod Prints
mod Others
pub mod Seek
