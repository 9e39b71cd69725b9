-- Laws of the crate completion, a file for each call, for the proofs of its functions.
mod TickSteps
mod FlushSteps
mod OrderSteps
mod AckSteps
