-- The laws of the later lines and of the whole text.
pub mod LaterLine
pub mod AllLines
