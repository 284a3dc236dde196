-- The definitions that the contracts of `run_rows` cite.
pub mod Rows
