pub mod Spaced
pub mod Joining
pub mod Giving
pub mod Lowest
pub mod Taking
pub mod Memory
pub mod Pooling
