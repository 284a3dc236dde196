-- The laws of fresh, save and restore.
pub mod Answers
