-- Definitions of the crate false_worlds.
pub mod Histories
pub mod Prepares
pub mod Logs
pub mod Words
pub mod Orders
pub mod Verdicts
pub mod Progress
pub mod Slices
pub mod Tables
pub mod Unwritten
pub mod Pids
pub mod Ticks
pub mod ExactOrders
