mod Bounds
pub mod OneOutcome
pub mod Unpacked
