-- What the functions on bytes and words promise, and the laws that their proofs use.
pub mod Laws
