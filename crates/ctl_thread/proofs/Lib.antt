pub mod Ascending
pub mod Linking
pub mod Touched
pub mod Leading
pub mod Ranges
pub mod Patient
