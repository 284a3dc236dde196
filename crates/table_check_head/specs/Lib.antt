-- The definitions that the contracts of `table_check_head` cite.
pub mod Check
