pub mod CheckerLaws
pub mod Soundness
pub mod Inputs
pub mod PartLaws
pub mod Examples
