pub mod Example
pub mod PageLines
pub mod Enough
pub mod WordsLeft
pub mod Handed
