mod Refusals
mod Revisions
mod Threads
mod Entries
mod Putting
pub mod Parts
pub mod Stands
pub mod Sessions
mod Groups
pub mod Plans
mod Lent
