-- Definitions of the crate answers.
pub mod Limits
pub mod Numbers
pub mod Answer
pub mod OpenAnswer
pub mod InitAnswer
pub mod TickAnswer
pub mod OrderAnswer
pub mod ProduceAnswer
pub mod ReadAnswer
pub mod Answers
pub mod Refusals
pub mod Returned
