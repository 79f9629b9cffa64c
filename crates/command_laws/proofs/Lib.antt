pub mod Steps
pub mod Outcomes
mod Left
