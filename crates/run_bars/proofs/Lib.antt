-- The laws of `run_bars`.
pub mod Printed
