-- Laws of restriction: what a look finds, one turn of the loop after another, and the calls whole.
mod Values
mod Looking
mod Turns
mod Loop
mod Whole
mod Forms
