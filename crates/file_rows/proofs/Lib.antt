pub mod AmdRows
pub mod FileReads
pub mod IntelRows
mod PatchWalks
mod Pieces
mod Told
mod UpdateReads
