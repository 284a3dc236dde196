-- What the contracts of `bar_line_stamp` cite.
pub mod Read
