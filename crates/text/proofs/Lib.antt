pub mod Decimals
pub mod Spaced
pub mod Longer
pub mod TextOf
pub mod OneOutcome
