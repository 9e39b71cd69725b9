-- Definitions of the crate race: the game of request 14 of document 02, the search for who wins it, and examples of both.
pub mod Limits
pub mod Game
pub mod Search
pub mod Results
pub mod Examples
