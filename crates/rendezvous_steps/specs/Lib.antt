pub mod Plan
pub mod Padded
pub mod Words
pub mod StepTable
pub mod Events
pub mod ItemText
