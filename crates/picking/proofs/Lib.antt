-- Laws of picking.
mod Ending
