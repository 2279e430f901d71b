pub mod Numbered
pub mod Goings
pub mod Names
pub mod Beginnings
