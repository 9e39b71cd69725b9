-- Definitions of the crate partition: its state and its calls.
pub mod Limits
pub mod Partition
pub mod Append
pub mod Marker
pub mod Read
