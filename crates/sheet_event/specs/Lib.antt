-- The definitions of an event's line.
pub mod Line
