-- The laws that the exported functions share, what the numbers given mean, and where a record starts.
pub mod Given
pub mod Handed
pub mod Places
