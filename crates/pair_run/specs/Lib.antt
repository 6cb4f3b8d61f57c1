-- The definitions that the contracts of the pair run cite.
pub mod Held
