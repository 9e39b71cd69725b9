-- Definitions of the crate calls: what it is that a function meets its case of `Call`.
pub mod Meets
