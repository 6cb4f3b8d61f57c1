-- What an exploration reaches, and how a loop that notes tasks, over a stack or not, comes to c and to "can it hold", over any kind of task.
pub mod Among
pub mod First
pub mod Different
pub mod Reaching
pub mod Stack
pub mod Noting
pub mod Looks
pub mod Turns
