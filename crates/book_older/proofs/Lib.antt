-- A book from before lots is read as it was written.
pub mod Entries
pub mod Kept
