-- The laws of a sheet's numbers.
pub mod Rows
pub mod Counts
pub mod MoreEvents
pub mod MoreClauses
pub mod Stores
