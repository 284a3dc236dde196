-- The definitions of block rows.
pub mod Blocks
pub mod Read
