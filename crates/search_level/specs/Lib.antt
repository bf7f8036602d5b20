-- The test of a level: its contract, and the laws.
pub mod Laws
