-- The laws of a clause's line.
pub mod ClauseLine
