-- How many slots a sheet is searched with, and the laws that the proofs use.
pub mod Slots
pub mod Laws
