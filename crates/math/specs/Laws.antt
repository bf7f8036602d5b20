-- Laws, and what functions inside the library promise each other: no contract of an entry point cites any of it.
pub mod ListLaws
pub mod PartLaws
pub mod SplitLaws
pub mod ScanLaws
pub mod BitLaws
pub mod SetLaws
pub mod CountLaws
pub mod QueueLaws
pub mod OverLaws
pub mod SpliceLaws
pub mod NumeralLaws
