-- The words of the jobs that are one operator on one set, and of picking, which is a sequence of them.
pub mod Relations
pub mod Picking
