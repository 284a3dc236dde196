-- The theorem of every list of calls on one book, and one list computed.
pub mod Answered
pub mod Invariant
pub mod Booked
pub mod Keeps
pub mod Sizes
pub mod Numbers
pub mod Kept
pub mod Known
pub mod Theorem
pub mod Opened
mod Examples
