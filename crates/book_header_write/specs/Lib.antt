-- The definitions that the contracts of `book_header_write` cite.
pub mod Bytes
