-- The byte form, and what its reader and its writer answer.
pub mod Bytes
pub mod Told
