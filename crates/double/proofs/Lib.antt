-- The laws that belong to no one function.
pub mod Constants
pub mod Tests
pub mod Away
pub mod Branches
pub mod Signs
pub mod Numbers
pub mod OwnPrice
pub mod Rounding
pub mod Apart
pub mod Distance
pub mod Examples
pub mod Opened
