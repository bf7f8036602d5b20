-- What the functions on one line promise, and the laws that their proofs use.
pub mod Laws
