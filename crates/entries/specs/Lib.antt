pub mod Entry
pub mod Reading
pub mod Meaning
