-- What the writer of formulas' texts promises (Contract), what its text gives when it is read (SentBack), and the laws
-- that its proofs use.
pub mod Contract
pub mod SentBack
pub mod Laws
