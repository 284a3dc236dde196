-- The laws of the ends of fields and of a line.
mod Blocks
mod Firsts
mod Fields
