-- Theorems of the crate listing_examples.
pub mod Right
