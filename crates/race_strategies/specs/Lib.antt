-- Definitions of the crate race_strategies.
pub mod WhoWins
