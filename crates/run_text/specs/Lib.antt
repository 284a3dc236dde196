-- The definitions that the contracts of `run_text` cite.
pub mod Refused
