-- The definitions of UTF-8 and of a text.
pub mod Utf8
pub mod Alone
pub mod Read
