pub mod InRow
pub mod Parted
pub mod Closed
pub mod Alike
pub mod Lengths
