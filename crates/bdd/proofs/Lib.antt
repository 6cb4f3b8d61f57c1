-- Laws about the definitions, and what they compute to.
pub mod Logic
pub mod Verdicts
pub mod Ordered
pub mod Reduction
pub mod Settings
pub mod Written
pub mod Following
pub mod Walked
pub mod Meaning
pub mod Converse
pub mod Implied
pub mod Negation
pub mod Refusing
pub mod Makers
pub mod Settled
pub mod Passing
