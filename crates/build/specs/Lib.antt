-- The words of the building exploration.
pub mod Build
pub mod Exploring
pub mod Looks
