-- Laws of the crate race: a round of the search, and the examples.
pub mod Search
pub mod Boards
pub mod Plays
