-- Laws, and what functions inside the library promise each other: no contract of an entry point cites any of it.
pub mod WalkAnswers
pub mod Accepted
pub mod Inputs
pub mod Theorems
pub mod Left
pub mod SearchLaws
pub mod Corollary
