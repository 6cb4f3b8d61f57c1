-- The words of options held as marks.
pub mod Marking
