pub mod Next
pub mod Searching
