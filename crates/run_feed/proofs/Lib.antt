-- The laws of `run_feed`.
pub mod Fed
pub mod Lines
