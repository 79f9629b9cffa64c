pub mod Answers
pub mod EventLines
pub mod FirstLine
pub mod Schedules
pub mod Shorts
