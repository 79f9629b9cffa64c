pub mod Play
pub mod Rank
