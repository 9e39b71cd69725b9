-- Definitions of the crate listing.
pub mod Limits
pub mod Listing
