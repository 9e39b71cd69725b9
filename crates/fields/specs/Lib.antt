-- Definitions of the crate fields.
pub mod Limits
pub mod Fields
pub mod Numbers
