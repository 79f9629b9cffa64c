pub mod Putting
pub mod Writes
