-- Theorems of the crate examples.
pub mod Lines
pub mod Themes
pub mod TimeoutLines
pub mod Successions
pub mod Bytes
pub mod Demanded
