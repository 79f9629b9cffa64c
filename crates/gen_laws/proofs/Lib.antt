mod Words
mod Numbers
mod Counted
mod Body
mod Topology
mod Script
mod Lengths
