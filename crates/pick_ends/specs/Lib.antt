-- The words of the pieces of picking.
pub mod Pieces
