-- The lines of a written text: what the functions that put them go by.
pub mod Laws
