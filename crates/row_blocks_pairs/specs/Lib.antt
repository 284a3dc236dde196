-- The definitions that the contracts of `row_blocks_pairs` cite.
pub mod Added
