-- The search from any slot on: the contract of its loop, and the laws.
pub mod Laws
