-- The laws of a line's price.
pub mod Digits
pub mod Form
