-- What the loop of negation writes.
pub mod Links
