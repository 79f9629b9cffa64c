pub mod Histories
pub mod Refusals
pub mod Replies
pub mod Named
