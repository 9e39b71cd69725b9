-- Definitions of the crate run_examples.
pub mod Checks
pub mod Runs
pub mod Examples
pub mod Values
pub mod Lists
pub mod Timeouts
pub mod ExactOrders
