pub mod Filled
pub mod Lines
pub mod Words
pub mod Counts
pub mod Spelling
