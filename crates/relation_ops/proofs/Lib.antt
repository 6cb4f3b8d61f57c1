-- Laws of the jobs that are one operator on one set.
pub mod Values
mod Relating
pub mod Picked
pub mod Steps
mod Paper
pub mod Whole
