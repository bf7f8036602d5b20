-- Permutations of variables: definitions, the tests, images, and what a permutation that keeps the clauses does.
pub mod Permutations
pub mod Laws
