-- Definitions of the crate writer: what can happen to a log, which records the server could have written, and demand 2.
pub mod RecordsSay
pub mod Writer
pub mod Items
pub mod Demand2
