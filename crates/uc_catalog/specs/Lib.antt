pub mod Coming
pub mod Contents
pub mod Files
