-- What the code's answers on the order of texts mean.
pub mod Read
