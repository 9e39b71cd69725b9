-- Definitions of the crate protocol, in reading order. No reader has to believe them: they are the invariant of the proof.
-- the latest record of a name, its prepares, and what holds at every cut
pub mod RecordsOfName
-- the entries, the ordinal of each, and the marker that it stands under
pub mod Entries
-- the invariant of a history
pub mod HistoryInvariant
-- which event may come next
pub mod NextEvent
