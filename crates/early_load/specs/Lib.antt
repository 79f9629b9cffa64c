pub mod Caches
pub mod Wanted
pub mod Puts
pub mod Boots
