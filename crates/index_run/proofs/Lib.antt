-- Laws of the index run, for the proofs of its functions and of its callers.
pub mod Links
pub mod Laws
pub mod Ends
pub mod Columns
pub mod Placing
