pub mod Stepped
pub mod Held
