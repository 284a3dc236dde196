-- The definitions that the contracts of `book_header` cite.
pub mod Size
pub mod Bytes
