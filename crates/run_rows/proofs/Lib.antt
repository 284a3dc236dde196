-- The laws of `run_rows`.
pub mod Listed
pub mod Asked
pub mod Lent
pub mod One
