-- Laws of sheets' lines, and the theorem that every sheet that can be read is fine.
pub mod Parted
pub mod Lines
pub mod Words
pub mod Given
pub mod Facts
pub mod Fields
pub mod Events
pub mod SheetLines
pub mod Theorem
pub mod Clauses
mod Examples
pub mod Opened
