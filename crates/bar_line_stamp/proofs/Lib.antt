-- The laws of a line's time.
mod Times
