-- What looking for the end of a line answers.
pub mod Find
