-- The definitions that the contracts of a bar's step cite.
pub mod Steps
