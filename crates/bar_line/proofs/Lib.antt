-- What a line's time is on the wall clock, that its price is a double, and worked lines.
pub mod Laws
pub mod Opened
pub mod Given
mod Examples
