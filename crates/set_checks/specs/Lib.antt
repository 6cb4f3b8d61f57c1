-- What the tidy and the signing order check answer.
pub mod Checked
