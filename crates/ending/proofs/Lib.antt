-- Laws of the ends.
pub mod Bounding
pub mod Columns
pub mod Whole
pub mod Alike
