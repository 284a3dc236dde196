-- The definitions that the contract of `row_open` cites.
pub mod Open
