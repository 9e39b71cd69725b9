-- Laws of the crate protocol, in reading order: what holds of every history whose events may come one after the other.
-- what a cut leaves of the records, and the latest record of a name
pub mod Cuts
-- the table of the records: the row of a name is its latest record
pub mod TableOfRecords
-- what follows a prepare completes it
pub mod AfterPrepare
-- no two names have one producer id
pub mod ProducerIds
-- what each event changes
pub mod Events
-- the marker that an entry stands under, after one more event
pub mod Entries
-- the prepare of an ordinal
pub mod Ordinals
-- what the invariant says of one record, entry, marker or order
pub mod Consequences
-- Flush, a cut, an opening, an order given, an order carried
pub mod WritesNothing
-- a record
pub mod RecordAppended
-- an entry
pub mod EntryWritten
-- a marker
pub mod MarkerWritten
-- the main law: every event that may come next keeps the invariant, and why
pub mod NextEvent
-- the marker over an entry, as demand 3 states it
pub mod MarkerOver
-- histories that grow: what is flushed stays, and a flushed prepare is kept
pub mod Extends
-- every entry of a completed transaction stands under its verdict
pub mod UnderVerdict
