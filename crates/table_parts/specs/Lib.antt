-- The definitions of a table in the making.
pub mod Codes
pub mod Draft
