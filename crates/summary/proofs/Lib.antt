mod Steps
mod Sayings
mod Stand
