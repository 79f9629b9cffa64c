pub mod Hardware
pub mod Calls
pub mod BringUps
pub mod Laws
pub mod Puts
