-- Rows by their index, case *1's rows, and the opener of definitions.
pub mod Index
pub mod Opened
pub mod Examples
