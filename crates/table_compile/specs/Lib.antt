-- The definitions of compiling's steps and answers.
pub mod Outcome
pub mod Steps
