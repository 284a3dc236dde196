-- The laws of the plain machine.
pub mod Keeps
pub mod Acts
pub mod OneRecord
pub mod Steps
pub mod Sound
pub mod Lots
pub mod HeadReach
pub mod Reach
pub mod Whole
