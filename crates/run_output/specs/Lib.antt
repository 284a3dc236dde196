-- The definitions that the contracts of `run_output` cite.
pub mod Shown
