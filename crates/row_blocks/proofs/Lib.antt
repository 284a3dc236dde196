-- The laws of block rows: each is the single call's, how a buffer is filled with them, and what is refused.
pub mod Single
pub mod Filling
pub mod Asked
mod Examples
