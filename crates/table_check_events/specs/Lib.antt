-- The definitions that the contracts of `table_check_events` cite.
pub mod Check
