mod Fronts
mod Entries
mod Plans
mod Picked
mod Walks
mod Tabled
mod Groups
mod Columns
mod Orders
mod Sounds
mod Breaks
pub mod Rounds
mod Begun
