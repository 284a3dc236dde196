-- The laws of the check of keys and values, and worked examples.
pub mod Words
pub mod Ranks
pub mod Rising
pub mod Vocabulary
mod Examples
pub mod Opened
