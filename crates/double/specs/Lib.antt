-- The definitions of double arithmetic.
pub mod Double
pub mod Read
pub mod Distance
