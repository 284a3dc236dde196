-- What the contracts of `book_feed_line` cite.
pub mod Steps
