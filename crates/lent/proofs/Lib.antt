-- Laws that loops over lent runs share.
pub mod Fronts
