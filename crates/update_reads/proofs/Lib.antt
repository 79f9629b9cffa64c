mod Ended
pub mod Files
mod Taken
