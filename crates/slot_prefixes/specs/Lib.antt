-- Laws of the search on the first places of longer slices.
pub mod Laws
