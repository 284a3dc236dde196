-- The definitions that the contracts of `run_fields` cite.
pub mod Fields
