-- The laws of the check of texts.
pub mod Texts
pub mod Lent
