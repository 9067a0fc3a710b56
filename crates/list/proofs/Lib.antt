pub mod Complete
pub mod Parts
pub mod Numbers
pub mod TableOf
pub mod ListCases
