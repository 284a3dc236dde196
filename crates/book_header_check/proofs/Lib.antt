-- The laws of the header check, and what a book that passed it has.
pub mod Fields
pub mod Presence
pub mod Slot
pub mod Own
pub mod Passed
