-- The definitions of a bar and its times.
pub mod Time
pub mod Bar
