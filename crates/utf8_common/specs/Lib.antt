-- The definitions of common characters.
pub mod Common
