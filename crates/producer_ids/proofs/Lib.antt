-- Laws of the crate producer_ids, for the proofs of its functions.
mod InitSteps
