pub mod Keys
pub mod Faults
pub mod Laws
pub mod Wells
