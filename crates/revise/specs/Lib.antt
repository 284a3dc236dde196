-- A list of bars with revisions: its lines, its entries, the chosen ones, and the call.
pub mod Lines
pub mod Entries
pub mod Chosen
pub mod Revise
pub mod Places
