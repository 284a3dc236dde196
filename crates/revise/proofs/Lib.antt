-- The laws of lists of bars with revisions.
pub mod Opened
mod Examples
pub mod Chosen
pub mod Lines
pub mod Tags
pub mod Given
pub mod Reached
pub mod Taken
pub mod Places
pub mod Agree
