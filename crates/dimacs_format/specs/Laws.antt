-- Laws, and what functions inside the library promise each other: no contract of an entry point cites any of it.
pub mod TextLaws
pub mod StepLaws
pub mod AnswerLaws
pub mod ClauseLaws
pub mod CommentLaws
pub mod SideLaws
pub mod HeadLaws
pub mod LineLaws
pub mod ReaderLaws
pub mod PercentLaws
pub mod InputLaws
pub mod RoomLaws
pub mod Handed
pub mod Example
