-- Laws of the crate varints.
pub mod Laws
pub mod Examples
