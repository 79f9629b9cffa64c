pub mod Offers
pub mod Readings
