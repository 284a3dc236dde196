-- The laws of blocks of pair rows.
pub mod Made
pub mod Walking
pub mod First
pub mod Short
