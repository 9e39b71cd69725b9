-- Laws of the crate calls.
pub mod Laws
