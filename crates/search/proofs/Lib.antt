-- Laws of the crate search.
pub mod Laws
pub mod Each
pub mod Found
pub mod Members
pub mod Find
pub mod SameFirst
pub mod Std
