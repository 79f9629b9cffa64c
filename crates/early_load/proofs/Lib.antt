mod Kept
mod Freeing
mod Rising
mod Putting
mod Booted
pub mod Sweeping
