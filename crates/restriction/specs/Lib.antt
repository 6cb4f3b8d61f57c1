-- What a restriction promises, its entries as tasks, and the words of its exploration.
pub mod Restricts
pub mod Entries
pub mod Exploring
