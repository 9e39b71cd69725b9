-- Laws of the crate race_strategies: the search in closed form, the number of partitions left, a strategy for each side, the meaning of the answer, and what is demanded of it.
pub mod ClosedForm
pub mod Left
pub mod Plays
pub mod Bench
pub mod Line
pub mod WhoWins
pub mod Demanded
