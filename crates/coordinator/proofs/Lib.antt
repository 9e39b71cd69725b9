-- Laws of the crate coordinator: of each call by its cases; what every call tests; what its change leaves; and what the calls by name have in common.
pub mod Held
pub mod OpenCases
pub mod OlderLogs
pub mod InitCases
pub mod AddCases
pub mod EndCases
pub mod TickCases
pub mod FlushCases
pub mod OrderCases
pub mod AckCases
pub mod Laws
pub mod Changes
pub mod Named
pub mod Reserve
