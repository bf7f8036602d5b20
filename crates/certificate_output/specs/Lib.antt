-- What the stores into the output go by.
pub mod Laws
