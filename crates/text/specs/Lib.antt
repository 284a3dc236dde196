-- The definitions of texts: answers, quoted texts, lines, fields and parts, numbers, and places.
pub mod Answer
pub mod Literal
pub mod Text
pub mod Number
pub mod Conditions
pub mod Read
