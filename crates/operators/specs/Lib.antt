-- The words of the operators by number.
pub mod Numbered
