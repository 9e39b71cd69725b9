-- Definitions of the crate search.
pub mod Search
