mod Steps
mod Firsts
mod Kept
