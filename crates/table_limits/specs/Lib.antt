-- The definitions of a sheet within its limits.
pub mod Fine
