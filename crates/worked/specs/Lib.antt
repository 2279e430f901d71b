pub mod Cases
pub mod Works
