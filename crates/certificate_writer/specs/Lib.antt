-- What the writer tests and stores.
pub mod Contract
pub mod Laws
