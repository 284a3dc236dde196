-- The definitions of stops.
pub mod Stop
