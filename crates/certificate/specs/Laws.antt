-- Laws, and what functions inside the library promise each other: no contract of an entry point cites any of it.
pub mod BytesLaws
pub mod CertificateLaws
pub mod RowLaws
pub mod WriterLaws
pub mod ReaderLaws
pub mod Examples
pub mod Inputs
