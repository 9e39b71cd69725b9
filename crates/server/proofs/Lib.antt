-- Laws of the crate server.
pub mod ProduceCases
pub mod Lines
pub mod Demand1
pub mod Admitted
pub mod RoomToEnd
mod ProduceSteps
