pub mod Laws
pub mod Standing
pub mod Plans
pub mod Lent
