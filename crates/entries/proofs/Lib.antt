pub mod NotCode
pub mod Reading
pub mod Meaning
pub mod Worked
