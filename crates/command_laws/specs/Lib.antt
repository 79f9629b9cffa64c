pub mod Steps
pub mod Left
