pub mod Entries
pub mod Live
pub mod Stepped
pub mod Added
pub mod Sweeping
