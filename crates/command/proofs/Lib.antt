-- Laws of the crate command: the public modules are for callers, the others for the functions' own proofs.
pub mod Rows
pub mod Back
mod Values
