-- The definitions that the contracts of `book_feed` cite.
pub mod Feed
pub mod Steps
