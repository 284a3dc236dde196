-- The laws of the check of clauses, and worked examples.
pub mod Clauses
mod Examples
pub mod Opened
