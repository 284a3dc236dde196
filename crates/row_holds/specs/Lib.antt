-- The definitions that the contracts of `row_holds` cite.
pub mod Held
