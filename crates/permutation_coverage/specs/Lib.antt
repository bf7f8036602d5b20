-- What look-ups of points and their images go by.
pub mod Laws
