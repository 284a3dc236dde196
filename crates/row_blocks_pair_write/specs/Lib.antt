-- The definitions that the contracts of `row_blocks_pair_write` cite.
pub mod Row
