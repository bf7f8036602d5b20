-- What the functions on the problem line promise, and the laws that their proofs use.
pub mod Laws
