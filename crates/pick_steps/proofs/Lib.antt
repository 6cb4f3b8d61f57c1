-- Laws of the sequences of picking.
pub mod Recursion
