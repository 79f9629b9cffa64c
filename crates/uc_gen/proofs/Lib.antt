mod Lists
mod Drawing
mod Lines
mod Pieces
