-- Definitions of the crate bits: sets of positions.
pub mod Bits
