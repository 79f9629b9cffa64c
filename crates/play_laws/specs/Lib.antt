pub mod Lawful
pub mod Runs
pub mod Stuck
pub mod Outcomes
pub mod Patient
pub mod Needed
