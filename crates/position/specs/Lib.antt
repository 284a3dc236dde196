-- The definitions of the plain machine: its state, its steps, a feed, the rows and the run program; the starred cases and others.
pub mod State
pub mod Step
pub mod Feed
pub mod Rows
pub mod Run
pub mod Cases
pub mod Further
pub mod TradingDay
pub mod Lots
