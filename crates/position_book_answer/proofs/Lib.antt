-- Values of an answer by its parts, and worked examples.
pub mod Values
mod Examples
