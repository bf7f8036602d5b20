-- What the functions on clause words promise, and the laws that their proofs use.
pub mod Laws
