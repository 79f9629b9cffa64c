pub mod Verdicts
pub mod Sessions
pub mod Acts
pub mod Boots
pub mod Loads
pub mod Meeting
pub mod Playing
