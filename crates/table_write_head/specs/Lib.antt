-- What writing a header asks.
pub mod Head
