-- Laws of the crate fields: the public module is for callers too, the others for the functions' own proofs.
mod Splitting
pub mod Held
mod Decimals
mod Ranges
