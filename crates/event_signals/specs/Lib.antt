-- What reading a bar's signals answers.
pub mod Read
pub mod Steps
