-- The definitions of row requests.
pub mod Calls
pub mod Read
