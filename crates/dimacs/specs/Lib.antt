-- What the reader promises (Contract), and the laws that its proofs use.
pub mod Contract
pub mod Laws
