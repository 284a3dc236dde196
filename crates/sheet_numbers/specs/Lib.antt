-- The definitions of a sheet's counts.
pub mod Counted
