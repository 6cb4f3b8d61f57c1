-- What the calls of this crate answer, and what their inner steps promise.
pub mod Told
pub mod Numbers
pub mod Parting
pub mod Settling
