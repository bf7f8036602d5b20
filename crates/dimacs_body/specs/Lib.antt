-- What the functions on lines promise each other, and the laws that their proofs use.
pub mod Laws
