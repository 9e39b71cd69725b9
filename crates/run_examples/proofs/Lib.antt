-- Proofs of the crate run_examples.
pub mod Evaluated
pub mod Sound
pub mod Promised
pub mod Values
pub mod Demanded
pub mod Lists
pub mod Timeouts
pub mod ExactOrders
