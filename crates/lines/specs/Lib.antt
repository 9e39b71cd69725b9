-- Definitions of the crate lines.
pub mod Text
pub mod Cursor
