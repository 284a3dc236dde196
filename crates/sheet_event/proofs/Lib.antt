-- The laws of an event's line.
pub mod EventLine
