pub mod Checks
pub mod Equiv
pub mod File
pub mod Patch
pub mod Settled
