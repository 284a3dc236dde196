-- The definitions that the contracts of `book_entry` cite.
pub mod Numbers
