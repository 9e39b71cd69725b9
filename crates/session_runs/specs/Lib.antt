-- Definitions of the crate session_runs.
pub mod Items
pub mod SessionRuns
pub mod Listing
