pub mod Outcomes
pub mod Reports
pub mod Faults
pub mod Fitting
pub mod Filling
pub mod Enough
