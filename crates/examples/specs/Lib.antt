-- Tables of calls with their outcomes, beside T1 to T12.
pub mod Starts
pub mod FurtherLines
pub mod RefusalLines
pub mod Held
pub mod EpochLines
pub mod ClockLines
pub mod SetLines
pub mod PidLines
pub mod PartitionLines
pub mod LimitLines
pub mod NameLines
pub mod TimeoutLines
pub mod Themes
pub mod SuccessionLines
pub mod BytesLines
pub mod OlderLog
