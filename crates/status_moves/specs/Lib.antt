-- Definitions of the crate status_moves.
pub mod StatusMoves
