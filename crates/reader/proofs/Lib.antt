-- What the reader gives in turn.
pub mod Turns
