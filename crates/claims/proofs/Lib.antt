pub mod Theorem
pub mod CheckerExact
pub mod Instances
pub mod CasesHold
