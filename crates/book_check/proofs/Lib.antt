-- The laws of the full check.
pub mod Walk
pub mod Full
