-- The laws of the choice of entries by their numbers.
pub mod Picked
pub mod Moved
pub mod Placed
pub mod Choosing
