-- Laws of the crate cut_outcomes.
pub mod Laws
