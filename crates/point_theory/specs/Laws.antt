-- Laws, and what functions inside the library promise each other: no contract of an entry point cites any of it.
pub mod Notions
pub mod Distance
pub mod Closer
pub mod Maps
pub mod Approach
pub mod Refutes
