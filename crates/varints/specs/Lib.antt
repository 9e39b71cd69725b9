-- Definitions of the crate varints.
pub mod Varints
pub mod Examples
