pub mod Written
pub mod WordsFrom
