-- What the ends of a maker of arrays do.
pub mod Ends
