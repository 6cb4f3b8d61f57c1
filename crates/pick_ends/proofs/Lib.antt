-- Laws of how picking begins and ends.
pub mod Admitting
