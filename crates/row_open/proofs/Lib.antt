-- The laws of opening a book for its rows.
pub mod Laws
