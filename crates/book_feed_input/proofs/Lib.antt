-- The laws of what a step is given.
pub mod Bars
pub mod Choices
