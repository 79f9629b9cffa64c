pub mod Causes
mod Endings
mod Generating
mod Groups
mod StatusKinds
pub mod Headline
mod Names
mod Playing
mod Generated
