-- Laws of the operators' pieces.
pub mod Admitting
pub mod Operating
pub mod Drying
pub mod Whole
