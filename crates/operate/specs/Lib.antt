-- The definitions of operates.
pub mod Operate
pub mod Read
