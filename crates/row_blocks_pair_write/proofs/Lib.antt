-- The laws of a pair row's bytes.
pub mod Row
