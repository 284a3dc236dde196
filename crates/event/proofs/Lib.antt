-- Worked examples, and the laws of the first match.
mod Examples
pub mod First
pub mod Opened
