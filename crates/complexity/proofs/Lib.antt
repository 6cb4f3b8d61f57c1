-- What each look of the counting exploration does, and how it begins and ends.
mod Looking
mod Around
