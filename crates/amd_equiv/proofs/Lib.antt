mod Begins
mod Rows
