-- What the exported functions take and tell.
pub mod Reading
pub mod Checking
pub mod Solving
pub mod Printing
pub mod Laws
