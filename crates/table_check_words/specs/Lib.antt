-- The definitions that the contracts of `table_check_words` cite.
pub mod Check
