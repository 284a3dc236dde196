-- The definitions that the contracts of `row_sequence` cite.
pub mod Named
pub mod Part
