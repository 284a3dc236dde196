-- The laws of common characters.
mod Common
