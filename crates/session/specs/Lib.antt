-- Definitions of the crate session.
pub mod Limits
pub mod Replies
pub mod Memory
pub mod Commands
pub mod Refusals
