-- Laws of the crate transactions, a file for each call, for the proofs of its functions.
mod AddSteps
mod EndSteps
