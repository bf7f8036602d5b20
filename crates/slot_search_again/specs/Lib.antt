-- Laws of the search on copies of the slots.
pub mod Laws
