mod Alike
mod FirstRows
mod Numbers
mod Orders
mod Runs
mod Served
mod Sorted
