-- What the calls answer.
pub mod Checked
