-- Laws of the operators: what follows from their promise, and their numbers.
pub mod Demands
mod Numbers
