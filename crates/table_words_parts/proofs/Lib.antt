-- The laws of a word's parts.
pub mod Fit
pub mod Tame
pub mod Count
