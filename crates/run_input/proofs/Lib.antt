-- The laws of the run program's input.
pub mod Numbers
pub mod Seek
pub mod Fields
pub mod Tags
