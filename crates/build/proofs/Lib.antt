-- Laws of the building exploration: what a look finds, the pairs that are known, and one turn of the loop after another.
mod Looking
mod Kept
mod Turns
mod Loop
