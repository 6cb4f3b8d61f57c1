-- Expressions, their value, and the arrays that their calls write.
pub mod Expressions
pub mod Writing
