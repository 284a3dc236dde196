-- The laws of wordbooks.
pub mod Numbers
pub mod Lined
pub mod Seeking
pub mod Entering
pub mod Books
pub mod Candidates
pub mod Buffers
mod Examples
pub mod Opened
