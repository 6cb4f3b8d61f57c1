-- What a dry run promises, and what the pieces of an operator do.
pub mod Operations
pub mod Pieces
