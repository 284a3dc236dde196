-- The definitions that the contracts of `book_check` cite.
pub mod Read
pub mod Walk
