-- The definitions that the contracts of `revise_match` cite.
pub mod Matched
