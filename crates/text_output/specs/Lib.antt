-- Decimal numbers as text, and what the functions that put texts go by.
pub mod Decimal
pub mod Laws
