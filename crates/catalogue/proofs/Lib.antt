-- Laws of the crate catalogue: the public modules are for callers, the others for the crate's own proofs.
pub mod Positions
pub mod Names
mod Reading
mod Topics
pub mod Format
pub mod Laws
