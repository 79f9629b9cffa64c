pub mod Able
pub mod Headline
pub mod Loads
pub mod Prompt
pub mod Texts
pub mod Words
