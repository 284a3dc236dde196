-- The definitions of the later lines of a sheet.
pub mod Lines
