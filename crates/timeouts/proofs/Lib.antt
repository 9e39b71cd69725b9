-- Laws of the crate timeouts: the theorem of request 2 of document 02.
-- the times of what is held
mod InOrder
-- the record with which a transaction began
mod Beginning
-- what is overdue by the table is due by the records
mod Due
-- what a Tick answers and appends
mod Ticks
-- a transaction is ended in time
mod EndsInTime
pub mod Timeouts
