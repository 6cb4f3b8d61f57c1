-- Laws of the slots of picking.
pub mod Parts
pub mod Leaving
