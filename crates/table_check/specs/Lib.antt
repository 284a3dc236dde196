-- The definitions that the contracts of `table_check` cite.
pub mod Check
