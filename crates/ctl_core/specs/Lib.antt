pub mod Lines
pub mod Chains
pub mod Stands
pub mod Moments
pub mod Cores
pub mod Playing
pub mod Laws
