-- What the contract of `bar_line_read` cites.
pub mod Read
