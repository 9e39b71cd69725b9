-- Definitions of the crate after_cut.
pub mod AfterCut
