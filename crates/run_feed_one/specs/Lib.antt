-- The definitions that the contract of `run_feed_one` cites.
pub mod One
