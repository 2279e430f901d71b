pub mod Draft
pub mod Book
pub mod Room
pub mod Laws
pub mod Exactly
