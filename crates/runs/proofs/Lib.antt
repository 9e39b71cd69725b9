-- Laws of the crate runs: of lists of items, of what each item does and leaves alone, and of the log's bytes.
pub mod Run
pub mod Cases
pub mod Changes
pub mod Decisions
pub mod Unchanged
pub mod LogBytes
pub mod Admitted
pub mod SameCalls
pub mod Epochs
