pub mod Table
pub mod Put
pub mod Lines
