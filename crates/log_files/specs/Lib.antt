-- Definitions of the crate log_files.
pub mod Limits
pub mod Load
