-- The words of the counting exploration.
pub mod Counts
pub mod Exploring
