-- Proofs of the crate replies.
pub mod Lines
pub mod Room
