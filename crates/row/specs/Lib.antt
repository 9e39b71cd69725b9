-- Definitions of the crate row: what is held of an id, and the records that a transaction goes through.
pub mod Limits
pub mod Row
pub mod Steps
