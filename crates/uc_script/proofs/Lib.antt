mod EventLines
mod FirstLines
mod Lines
mod Read
mod Scheduled
mod ShortWords
mod Words
