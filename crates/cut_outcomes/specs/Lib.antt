-- Definitions of the crate cut_outcomes.
pub mod Outcomes
