-- Laws of a header and its parts.
pub mod Parts
