-- The definitions of a bar's signals and of matching.
pub mod Signals
pub mod Match
