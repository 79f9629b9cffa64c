pub mod Facts
pub mod Parts
pub mod Boots
pub mod Presence
pub mod Loads
pub mod Plans
