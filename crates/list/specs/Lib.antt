pub mod ListCall
pub mod Parts
pub mod AfterWord
