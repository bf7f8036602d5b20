-- One step of the search: its contract, and the laws.
pub mod Conclusions
pub mod Laws
