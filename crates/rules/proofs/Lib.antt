pub mod Members
pub mod Doubles
mod Reading
pub mod Fills
pub mod Nths
mod Loads
mod Codes
pub mod Copies
pub mod Forms
