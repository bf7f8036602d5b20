-- Laws of the writer on copies of the slots.
pub mod Laws
