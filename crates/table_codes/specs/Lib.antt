-- The definitions of numbering keys and values.
pub mod Read
