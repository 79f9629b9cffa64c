pub mod Fed
pub mod Reading
