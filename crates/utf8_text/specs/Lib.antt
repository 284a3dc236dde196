-- What the answer for a text that stands alone means.
pub mod Read
