-- Laws of chains, for the crates whose runs are maps.
pub mod Zeros
pub mod Saying
pub mod Spots
pub mod Latest
pub mod Walk
pub mod Search
pub mod Growing
