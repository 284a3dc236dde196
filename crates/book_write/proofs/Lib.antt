-- The laws of writing a bar.
pub mod Written
