-- The list of calls on one book, the bars that survive it, and the claim about every such list.
pub mod Calls
pub mod Survivors
pub mod Demand3
