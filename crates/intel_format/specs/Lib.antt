pub mod Checks
pub mod Date
pub mod File
pub mod Header
pub mod Settled
pub mod Update
