-- The starred cases and others.
pub mod Opened
pub mod Starred
pub mod TradingDay
pub mod Lots
