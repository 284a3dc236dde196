-- The laws of a bar's step.
pub mod Steps
