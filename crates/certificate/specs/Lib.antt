-- The certificate: its bytes, its reading, the rows 14, 16, 17 and 19, and the writer.
pub mod Bytes
pub mod Certificate
pub mod Rows
pub mod Writer
pub mod Reader
pub mod Contract
pub mod Laws
