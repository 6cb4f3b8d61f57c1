-- The words of the counting exploration that is its own queue.
pub mod Queue
pub mod Exploring
