pub mod Index
pub mod Indexed
pub mod Rows
