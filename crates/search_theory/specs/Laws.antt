-- Laws, and what functions inside the library promise each other: no contract of an entry point cites any of it.
pub mod Invariants
pub mod InvariantLaws
pub mod Measure
pub mod Promised
pub mod MoreRoom
