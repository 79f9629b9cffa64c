mod Body
mod Fields
mod Kept
pub mod Laws
pub mod Partition
