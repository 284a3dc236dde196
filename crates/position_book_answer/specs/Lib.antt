-- The definitions of what the calls answer to the host.
pub mod Rows
