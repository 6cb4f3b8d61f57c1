-- What a good table says of its answers, and that the sixteen operators are good ones with the values of their bits.
pub mod Inputs
pub mod Tables
pub mod Lines
pub mod Sixteen
