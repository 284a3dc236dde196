-- The laws of a bar's line with its revision.
pub mod Pipes
pub mod Numbers
pub mod Fields
pub mod Entry
