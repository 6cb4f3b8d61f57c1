-- The words of the sequences of picking.
pub mod Sequences
