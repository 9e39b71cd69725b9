-- Definitions of the crate catalogue.
pub mod Limits
pub mod Catalogue
pub mod Format
