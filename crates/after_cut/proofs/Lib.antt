-- Laws of the crate after_cut.
pub mod Rounds
