-- What a table was in the landings before.
pub mod Older
