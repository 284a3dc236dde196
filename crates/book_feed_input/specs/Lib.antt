-- The definitions that the contracts of `book_feed_input` cite.
pub mod Bars
