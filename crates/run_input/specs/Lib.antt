-- The definitions that the contracts of `run_input` cite.
pub mod Lines
