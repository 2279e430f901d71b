pub mod Pushed
pub mod Shorts
pub mod Tried
pub mod Whole
pub mod Single
pub mod Sounds
pub mod Naming
pub mod Printing
