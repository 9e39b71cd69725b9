-- Laws of the crate listing.
mod Writing
mod Payloads
mod Whole
