-- What the functions on permutations require, and the laws of their loops.
pub mod Laws
