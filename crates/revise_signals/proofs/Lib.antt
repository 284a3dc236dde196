-- The laws of the S lines that are copied.
pub mod Taking
