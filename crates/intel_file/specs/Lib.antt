pub mod Progress
pub mod Reading
pub mod Stage
pub mod Stream
pub mod Walk
