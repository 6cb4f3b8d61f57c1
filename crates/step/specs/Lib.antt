-- The words of the exploration's step.
pub mod Step
