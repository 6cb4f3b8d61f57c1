-- Laws of this crate's proofs.
mod Kept
