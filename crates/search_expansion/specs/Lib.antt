-- What the functions on the flips of a point promise, and the laws that their proofs use.
pub mod Laws
