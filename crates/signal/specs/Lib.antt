-- The definitions of signals and of a bar's values.
pub mod Signal
pub mod Value
pub mod Read
