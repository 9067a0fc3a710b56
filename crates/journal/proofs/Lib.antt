pub mod Records
pub mod Journals
pub mod Found
pub mod Putting
