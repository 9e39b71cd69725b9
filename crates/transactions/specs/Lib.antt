-- Definitions of the crate transactions.
pub mod Parts
