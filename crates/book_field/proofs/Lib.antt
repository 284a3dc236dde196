-- Laws of a book's fields.
pub mod Laws
