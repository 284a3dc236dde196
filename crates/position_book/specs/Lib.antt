-- The definitions of the exported calls.
pub mod Results
