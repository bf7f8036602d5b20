-- The text that the program prints, and what the functions that make it go by.
pub mod Report
pub mod Laws
