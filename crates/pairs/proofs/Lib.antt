-- What a task of ordered sets stands for, and what the children of an undecided one do: one side, any number of sets, two.
pub mod Flips
pub mod Filled
pub mod Sides
pub mod Sets
pub mod Grid
pub mod Pairs
