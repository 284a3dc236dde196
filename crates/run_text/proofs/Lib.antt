-- The laws of `run_text`.
pub mod Whole
