-- A table of the landings before is read as it was written.
pub mod Kept
