-- The laws of matching over a compiled table.
pub mod Sound
pub mod Clauses
pub mod Judge
pub mod Events
pub mod Opened
