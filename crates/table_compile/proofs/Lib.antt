-- The laws of compiling.
pub mod Compiled
pub mod Steps
