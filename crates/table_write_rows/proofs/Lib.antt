-- The laws of writing rows.
pub mod Joined
pub mod Rows
