-- What the program prints for its input, and the laws that its functions go by.
pub mod Program
pub mod Laws
