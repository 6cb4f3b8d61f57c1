-- The noted pairs as a queue, what each look does, and how the exploration begins and ends.
pub mod Queues
mod Taking
mod Around
