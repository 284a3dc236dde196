-- What reading one line of a bar's signals answers.
pub mod Fields
