-- Laws of a book's size, and of the presence bytes of a header.
pub mod Sizes
pub mod Present
