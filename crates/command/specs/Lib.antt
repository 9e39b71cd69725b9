-- Definitions of the crate command.
pub mod Limits
pub mod Words
pub mod Command
