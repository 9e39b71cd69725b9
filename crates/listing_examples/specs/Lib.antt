-- Definitions of the crate listing_examples.
pub mod Examples
