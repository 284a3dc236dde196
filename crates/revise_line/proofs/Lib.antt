-- The laws of a line's end and of its first bytes.
mod Blocks
pub mod Tags
