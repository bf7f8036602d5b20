-- An index of points: a digital search tree in a slice of links.
pub mod Laws
