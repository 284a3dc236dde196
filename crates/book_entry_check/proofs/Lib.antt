-- Laws of the checks of holds and records.
pub mod ZeroBytes
