pub mod Counted
pub mod SafeRuns
pub mod Needed
