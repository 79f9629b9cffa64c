pub mod Play
pub mod Small
