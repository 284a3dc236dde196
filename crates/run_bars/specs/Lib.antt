-- The definitions that the contracts of `run_bars` and `run_text` cite.
pub mod Steps
