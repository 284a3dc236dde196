-- The laws of the check of events, and worked examples.
pub mod Events
mod Examples
