-- Definitions of the crate coordinator: its state, and each of its calls; what a call changes; what a display shows.
pub mod Coordinator
pub mod Named
pub mod OpenedLog
pub mod Open
pub mod OlderLogs
pub mod Init
pub mod Add
pub mod End
pub mod Tick
pub mod Flush
pub mod Order
pub mod Ack
pub mod Left
pub mod Calls
