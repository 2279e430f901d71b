mod Steps
mod Sides
mod Tables
mod Founds
mod Written
mod Firsts
mod Theorems
