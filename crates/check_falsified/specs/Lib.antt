-- What the loop of row 17 goes by.
pub mod Laws
