-- The solver: what it answers and leaves, and demand 3's sentences about it.
pub mod Solver
pub mod Contract
pub mod Laws
