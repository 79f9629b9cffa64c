mod MarkedWords
mod Pieces
mod Places
