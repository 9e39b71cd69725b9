-- Definitions of the crate producer_ids.
pub mod Parts
