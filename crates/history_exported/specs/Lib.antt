-- A run of the exported calls on one book, and the claim about every such run.
pub mod Run
