pub mod Counted
mod Digits
mod Files
