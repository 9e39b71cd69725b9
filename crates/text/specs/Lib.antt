-- Definitions of the crate text.
pub mod Decimal
pub mod Lines
pub mod Limits
