pub mod Faults
pub mod Reported
pub mod Laws
pub mod Answered
