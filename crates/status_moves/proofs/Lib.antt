-- Laws of the crate status_moves: the theorem of request 4 of document 02.
mod Shown
mod Witnesses
pub mod StatusMoves
