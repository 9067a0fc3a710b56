pub mod Nexts
pub mod Table
pub mod Stepped
pub mod Found
