-- Stable sets of points: in document 01's form and as published, and that they refute the clauses.
pub mod Stable
pub mod Published
