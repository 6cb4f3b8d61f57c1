-- Laws of options held as marks.
pub mod Digits
pub mod Those
pub mod Marking
