-- Laws of the crate answers.
pub mod Laws
pub mod Returned
