-- The words of the exploration that builds an operator's array.
pub mod Frames
pub mod Awaiting
pub mod Apply
