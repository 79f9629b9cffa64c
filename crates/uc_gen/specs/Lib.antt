pub mod Bundle
pub mod Containers
pub mod Draws
pub mod Tally
pub mod Texts
