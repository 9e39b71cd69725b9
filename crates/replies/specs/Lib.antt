-- Definitions of the crate replies.
pub mod Shown
pub mod Reply
pub mod Rendering
