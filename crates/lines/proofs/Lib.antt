-- Laws of the crate lines.
mod Ends
mod Steps
pub mod Parts
pub mod Buffer
