-- What the checks answer.
pub mod Checked
