pub mod Format
pub mod Lists
pub mod Held
pub mod Goes
pub mod Reads
pub mod Begun
pub mod Faults
