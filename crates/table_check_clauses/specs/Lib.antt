-- The definitions that the contracts of `table_check_clauses` cite.
pub mod Check
