-- The definitions of what a text or a code alone answers to the host.
pub mod Calls
