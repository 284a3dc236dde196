-- The definitions that the contracts of `book_write` cite.
pub mod Write
