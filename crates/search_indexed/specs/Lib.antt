-- The laws of a search in stages.
pub mod Laws
