-- Laws of the crate session_runs.
pub mod Positions
pub mod Worlds
pub mod Steps
pub mod Carries
pub mod Cuts
pub mod EverySession
pub mod EveryText
pub mod ListingHolds
