-- What the contracts of `bar_line_price` cite.
pub mod Read
