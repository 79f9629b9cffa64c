mod Able
mod Complete
mod Ended
mod Headline
mod Loads
mod Played
mod SomeText
mod Through
