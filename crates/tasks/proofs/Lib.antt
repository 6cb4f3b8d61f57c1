-- The exploration that writes an array, apart from what a task is: its laws, one look after another or along open tasks, and S ≤ c + 2.
pub mod Finished
pub mod Deciding
pub mod Tasks
pub mod Build
pub mod Open
pub mod Measure
pub mod Sizes
