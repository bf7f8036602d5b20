-- The row 18, its loops, and what the look-ups of the checker are.
pub mod Flips
pub mod Laws
