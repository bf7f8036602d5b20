-- What the search answers, and what its reply says of an accepted formula.
pub mod Search
pub mod Contract
pub mod Laws
