-- The definitions of a position sheet.
pub mod Sheet
pub mod Read
pub mod Places
