-- The laws of the texts of an accepted table.
pub mod Texts
pub mod Asked
