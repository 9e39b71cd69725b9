-- Laws of the crate race_lines.
pub mod Lines
pub mod Examples
