-- Laws that the checks' proofs share.
pub mod Verdict
pub mod Entries
pub mod Walks
