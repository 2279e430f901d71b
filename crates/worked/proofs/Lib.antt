mod Fits
mod Settled
mod Answering
mod Worked
