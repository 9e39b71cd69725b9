-- Definitions of the crate server: Produce, which both parties decide, and all calls of document 01 as one type.
pub mod Produce
pub mod Calls
pub mod Lines
pub mod Demand1
pub mod Admitted
pub mod RoomToEnd
