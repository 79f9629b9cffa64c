pub mod Accepts
pub mod Reads
