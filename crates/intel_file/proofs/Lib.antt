mod Steps
mod Verdicts
mod Pieces
pub mod Standing
pub mod Walks
