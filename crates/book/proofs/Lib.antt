-- The laws of book.
pub mod Fits
pub mod Back
pub mod Items
pub mod Lengths
pub mod Parts
pub mod Slots
pub mod Last
pub mod Settled
pub mod Link
pub mod Feeds
pub mod Ranges
pub mod Entries
pub mod Header
pub mod Passes
pub mod Ready
pub mod Stored
pub mod Fed
pub mod Sizes
pub mod Distance
pub mod Opened
mod Examples
