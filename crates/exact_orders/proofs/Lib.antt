-- Laws of the crate exact_orders: the theorem of request 11 of document 02.
-- the acknowledged sets are those of the history
mod Acknowledged
-- at every moment of every run
mod AcknowledgedKept
-- how many members of a set are not in another
mod Counts
-- what is not acknowledged is what is left
mod NotAcknowledged
-- what the display shows
mod Shows
-- the orders carried since a moment
mod CarriedSince
-- a prepare completes after exactly as many
mod Completes
-- the theorem, and why it holds
pub mod ExactOrders
