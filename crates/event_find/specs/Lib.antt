-- The lines of a bar's signals as places in their text, and what finding one answers.
pub mod Places
pub mod Steps
