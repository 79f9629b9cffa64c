mod Coming
mod Ending
mod Listings
mod Rows
mod Steps
mod Streams
mod Taking
mod Units
