-- Laws that the checks' proofs share.
pub mod Verdict
