-- The definitions that the contracts of `row_pairs` cite.
pub mod Read
pub mod Found
pub mod Row
