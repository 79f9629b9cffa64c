mod Added
mod Comings
mod Located
mod RowsFound
pub mod Kept
