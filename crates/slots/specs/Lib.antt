-- The words of the slots of picking.
pub mod Slots
