pub mod SmallestLaws
