-- The laws of one line more.
mod Adding
