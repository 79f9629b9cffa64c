pub mod Answered
pub mod Going
pub mod Played
pub mod Within
