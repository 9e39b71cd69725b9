-- Definitions of the crate table.
pub mod Limits
pub mod Table
pub mod Room
pub mod Next
