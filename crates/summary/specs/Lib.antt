pub mod Summary
pub mod Laws
