pub mod Searches
pub mod Behind
mod Acting
mod Told
mod Stopping
mod Offered
mod Meeting
mod Loading
mod InTurn
