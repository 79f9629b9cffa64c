pub mod PowerUp
pub mod Sleep
pub mod Cold
