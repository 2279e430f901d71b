pub mod Found
pub mod Steps
pub mod Runs
pub mod Parts
pub mod Spelled
pub mod Numbers
pub mod Split
