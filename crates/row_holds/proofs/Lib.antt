-- The laws of hold rows.
pub mod Row
pub mod Asked
