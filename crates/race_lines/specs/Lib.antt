-- Definitions of the crate race_lines.
pub mod Limits
pub mod Lines
pub mod Examples
