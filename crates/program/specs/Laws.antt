-- Laws, and what functions inside the library promise each other: no contract of an entry point cites any of it.
pub mod Contracts
pub mod ProgramLaws
pub mod Example
