-- The slots as one slice of structs: their parts, and the laws of copies.
pub mod Slots
pub mod Laws
