-- The laws of a line's feed.
pub mod Line
