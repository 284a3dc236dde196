-- What writing rows asks and answers.
pub mod Rows
