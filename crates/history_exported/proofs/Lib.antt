-- The exported calls by their contracts, and demand 3 of them.
pub mod Tied
pub mod Theorem
