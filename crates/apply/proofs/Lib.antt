-- Laws of the exploration: frames in the stack, the path that they are, the way down, the way up, and the whole.
mod Stacking
mod Paths
mod Down
mod Up
mod Climbing
mod Whole
