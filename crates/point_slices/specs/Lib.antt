-- Points and clauses in lent slices.
pub mod Slices
pub mod Laws
