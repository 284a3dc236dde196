-- The definitions that the contracts of `row_blocks_holds` cite.
pub mod Row
