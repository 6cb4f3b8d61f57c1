-- The numbers by which answers are handed on.
pub mod Numbered
