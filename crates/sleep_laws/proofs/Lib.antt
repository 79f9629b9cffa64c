mod Coming
mod Loaded
mod Backed
mod Asleep
mod Cold
