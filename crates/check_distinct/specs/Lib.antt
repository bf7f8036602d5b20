-- What tests of points that index them go by.
pub mod Laws
