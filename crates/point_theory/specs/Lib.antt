-- The theory of stable sets: what is asked of a formula and of a map, and why a closed set of points means that nothing
-- satisfies.
pub mod Laws
