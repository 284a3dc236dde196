-- What the code's answers on the parts of a word mean.
pub mod Read
