-- The laws of pair rows.
pub mod Find
pub mod Values
pub mod Texts
pub mod Records
pub mod Numbers
pub mod Answers
