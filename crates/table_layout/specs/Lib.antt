-- The definitions of the bytes that compiling writes.
pub mod Build
pub mod Fits
