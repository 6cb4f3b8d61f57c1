-- The page of definitions that the contracts cite, one file to a heading of document 01.
pub mod Bounds
pub mod Array
pub mod Lent
pub mod Value
pub mod Signed
pub mod Reach
pub mod Walk
pub mod Table
pub mod Jobs
pub mod Pairs
pub mod Answers
pub mod Operations
