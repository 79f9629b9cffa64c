pub mod Alike
pub mod Decided
pub mod Numbered
pub mod Search
