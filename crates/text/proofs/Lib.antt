-- Laws of the crate text: the public modules are for callers, the other for the functions' own proofs.
pub mod Decimal
pub mod Lines
pub mod Fields
mod Spelling
