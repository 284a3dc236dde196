-- The definitions that serve to state theorems.
pub mod Before
