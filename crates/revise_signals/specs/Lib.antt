-- The definitions that the contracts of `revise_signals` cite.
pub mod Taken
