-- The definitions that the contracts of the index run cite.
pub mod Index
pub mod Placing
