-- Laws of the pair run, for the proofs of its functions and of its callers.
pub mod Rooms
pub mod Written
pub mod Replaced
pub mod Ends
pub mod Laws
