-- Formulas as numbers and bytes, and what is put of one that is read.
pub mod Formulas
pub mod Laws
