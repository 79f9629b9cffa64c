pub mod Ends
pub mod Generating
pub mod Playing
pub mod Reading
pub mod Refusal
pub mod Selecting
pub mod Words
