-- What writing a table asks and answers.
pub mod Fits
