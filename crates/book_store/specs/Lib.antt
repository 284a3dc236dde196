-- The definitions that the contracts of `book_store` cite.
pub mod Stored
pub mod Copied
