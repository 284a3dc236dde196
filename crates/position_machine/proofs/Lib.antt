-- The laws of the machine's step.
pub mod Going
pub mod Rules
