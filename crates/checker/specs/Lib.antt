-- The checker's reply, that it accepts exactly the stable sets, and that acceptance refutes the clauses; what its parts
-- promise.
pub mod Checker
pub mod Contract
pub mod Laws
