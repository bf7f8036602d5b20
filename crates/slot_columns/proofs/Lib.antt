pub mod Counted
pub mod Row
