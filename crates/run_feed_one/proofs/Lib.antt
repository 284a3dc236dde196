-- The laws of one bar.
pub mod Next
pub mod One
