-- The definitions that the contracts of `book_header_check` cite.
pub mod Used
