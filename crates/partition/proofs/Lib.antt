-- Laws of the crate partition.
pub mod MarkerCases
pub mod Laws
pub mod Fits
mod MarkerSteps
mod ProduceSteps
pub mod Reserve
pub mod Reading
