pub mod FromOn
pub mod Climb
pub mod WordMoves
pub mod WordBytes
pub mod Searching
