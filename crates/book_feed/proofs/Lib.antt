-- The laws of a feed.
pub mod Refusals
