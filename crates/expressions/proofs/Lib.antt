-- The theorem of demand 3, and what follows from it on the arrays themselves.
mod Steps
pub mod Theorem
pub mod Laws
mod Impostors
