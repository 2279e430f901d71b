pub mod Rules
pub mod Books
pub mod Laws
pub mod Doubled
pub mod Faults
pub mod Printed
pub mod Loaded
