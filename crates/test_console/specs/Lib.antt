-- What the contracts of `test_console` cite.
pub mod Counts
