mod Currents
mod Passes
mod Opens
mod Merges
mod Begins
mod Goings
mod Judges
mod Replaying
