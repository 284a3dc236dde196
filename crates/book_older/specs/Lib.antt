-- What a book was before lots.
pub mod Older
