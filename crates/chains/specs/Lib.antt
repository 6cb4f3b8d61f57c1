-- The definitions that the contracts of the two maps cite.
pub mod Spread
pub mod Chains
