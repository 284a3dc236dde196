-- The definitions that the contracts of `row_names` cite.
pub mod Read
