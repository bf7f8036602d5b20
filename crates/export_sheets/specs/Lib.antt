-- What the exported writer of texts tells, and the laws that its proofs use.
pub mod Sheets
pub mod Laws
