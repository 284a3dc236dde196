-- The laws of a block of ASCII.
mod Ascii
