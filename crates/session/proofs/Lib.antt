-- Laws of the crate session.
pub mod CommandSteps
pub mod Parts
pub mod CommandsRefused
