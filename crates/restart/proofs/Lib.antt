-- Theorems of the crate restart, in reading order.
-- what holds at every moment of a run
pub mod HoldsAt
-- the total of carried orders of a prepare
pub mod TotalOrders
-- every undisturbed item keeps it
pub mod TotalOrdersKept
-- demand 3, and why it holds
pub mod Demand3
-- what stands at an offset of a partition
pub mod Offsets
-- Read in every run
pub mod InEveryRun
-- a list that completes every flushed prepare
pub mod Completing
