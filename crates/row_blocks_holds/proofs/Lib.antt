-- The laws of blocks of hold rows.
pub mod Row
pub mod Writing
