pub mod Shown
pub mod Unique
pub mod Naming
pub mod All
