-- What the callers of the step use: a pair as a number, the child pairs, and that a reached pair may be handed to it.
pub mod Codes
mod Parts
