-- Laws of the crate row.
pub mod Laws
