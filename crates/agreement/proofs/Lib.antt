-- Laws of the crate agreement, in reading order: the state of coordinator and partitions agrees with the history, and every item keeps that.
-- the invariant of a world, and why every item keeps it
pub mod Invariant
-- refusal 12: what a call appends follows a flushed record
pub mod FlushedFirst
-- the coordinator's table and the history
pub mod LiveTable
-- the log under calls, cuts and openings
pub mod LogSteps
-- places and rows in what each cut leaves
pub mod Tables
-- the rows of a partition after an event that is not written there
pub mod Rows
-- the rows after an entry
pub mod RowsAfterProduce
-- the rows after a marker
pub mod RowsAfterMarker
-- what is acknowledged is closed
pub mod Acknowledgements
-- the marker over an entry, found in the words
pub mod Words
-- what it is to preserve the invariant; the actions of the coordinator do
pub mod Preserves
-- the row of a prepare: what Order and Ack find
pub mod PreparedRow
-- Order
pub mod Orders
-- Produce
pub mod Produces
-- Marker, carried
pub mod Delivers
-- Ack, carried
pub mod Acknowledges
-- the row of a name's latest record, when a record is appended and when an Ack is noted
pub mod LatestRows
-- a cut, an opening, another slice
pub mod Restarts
-- the first opening
pub mod Start
-- every item, and so every run
pub mod Steps
