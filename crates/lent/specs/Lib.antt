-- What the helpers over lent runs do.
pub mod Copied
