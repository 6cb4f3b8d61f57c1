-- Laws of the byte form, for the proofs of this crate and of the crates that read or write it. `Demands` has what is
-- asked of the definitions themselves.
pub mod Little
pub mod Splice
pub mod Parts
pub mod Turns
pub mod Answered
pub mod Small
pub mod Demands
