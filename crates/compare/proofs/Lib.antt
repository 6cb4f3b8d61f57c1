-- Laws of values and settings, of the numbers that entries get, and of the walk to where two sets part.
pub mod Values
pub mod Once
pub mod Numbering
pub mod Parting
pub mod Settling
