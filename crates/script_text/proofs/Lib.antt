pub mod FormsFound
pub mod Kept
pub mod OneReading
