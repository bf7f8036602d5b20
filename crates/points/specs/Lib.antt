-- Points and clauses.
pub mod Points
pub mod Laws
