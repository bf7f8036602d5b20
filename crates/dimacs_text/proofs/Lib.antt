pub mod LiteralLaws
pub mod WrittenLines
pub mod LinesBehind
pub mod RoundTrip
pub mod Example
pub mod ClauseLines
