pub mod OneStep
pub mod Laws
