mod Entries
mod Fronts
mod Pairs
pub mod Sums
