-- Laws of the crate writable_logs: what its items do to a log and its records, and the theorem of demand 2.
pub mod Decisions
pub mod Lawful
pub mod Written
pub mod OpeningAnswers
pub mod Reopening
pub mod Reached
mod Reopened
mod Appends
mod ClockCall
mod Acks
mod Completing
pub mod CouldWrite
pub mod Places
pub mod Demand2
