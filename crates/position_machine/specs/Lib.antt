-- The definitions that the contracts of `position_machine` cite.
pub mod Update
pub mod Rules
