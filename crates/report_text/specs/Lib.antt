pub mod Lines
pub mod Listing
pub mod Offers
pub mod Show
