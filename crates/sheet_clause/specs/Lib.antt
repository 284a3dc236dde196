-- The definitions of a clause's line.
pub mod Line
