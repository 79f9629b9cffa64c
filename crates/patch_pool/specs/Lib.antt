pub mod Free
pub mod Runs
pub mod Bytes
pub mod Steps
pub mod Pool
