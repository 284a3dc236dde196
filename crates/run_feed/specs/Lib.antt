-- The definitions that the contracts of `run_feed` cite.
pub mod Steps
