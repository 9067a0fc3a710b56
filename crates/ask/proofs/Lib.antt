pub mod Numbers
pub mod AskCases
