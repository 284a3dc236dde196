-- The definitions that the contracts of `table_check_texts` cite.
pub mod Check
