-- Definitions of the crate runs: the world of runs, and as statements over it demand 3 and what else holds in every run.
pub mod History
pub mod Parties
pub mod Effects
pub mod World
pub mod Demand3
pub mod InEveryRun
pub mod SameCalls
pub mod Completing
pub mod Timeouts
pub mod ExactOrders
